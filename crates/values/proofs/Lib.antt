-- Laws of values.
pub mod Skipping
pub mod Pieces
pub mod Decoding
pub mod Values
