-- Laws of an entry's text.
pub mod Texts
