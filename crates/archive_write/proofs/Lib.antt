-- Laws of what stands in an archive, for the crates that write one.
pub mod Stretches
