-- Laws of a board's layout.
pub mod Parts
