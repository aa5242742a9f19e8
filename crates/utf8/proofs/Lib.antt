-- Laws of characters, as the code takes them off a text.
pub mod Characters
