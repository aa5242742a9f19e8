-- Laws of escapes.
pub mod Escapes
