-- Laws of places in words.
pub mod Placing
