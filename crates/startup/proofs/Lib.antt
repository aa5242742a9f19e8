-- Laws of a start-up.
pub mod Starting
