-- Laws of these lines.
pub mod Putting
