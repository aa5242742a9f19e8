-- Laws of include lines.
pub mod Passing
pub mod Named
