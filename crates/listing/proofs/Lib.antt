-- Laws of what the list program writes.
pub mod Printing
