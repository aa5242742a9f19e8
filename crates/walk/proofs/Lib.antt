-- Laws of the walks.
pub mod Walking
