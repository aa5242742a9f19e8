-- Laws of this crate.
pub mod Looked
pub mod Reaching
pub mod Told
