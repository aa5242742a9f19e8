-- Laws of what is printed.
pub mod Pieces
pub mod Numbers
