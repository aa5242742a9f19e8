-- Laws of an addition.
pub mod Lines
pub mod Sizes
pub mod Appending
