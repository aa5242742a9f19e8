-- Laws of a board's calls.
pub mod Calling
pub mod Writing
