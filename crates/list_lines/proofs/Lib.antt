-- Laws of the list program's lines.
pub mod Lines
pub mod Rows
