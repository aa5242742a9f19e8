-- Laws of the lookups.
pub mod Looking
