-- Laws of the choice of texts.
pub mod Choosing
