-- Laws of what is told.
pub mod Telling
