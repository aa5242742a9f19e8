-- Laws of getres's answers.
pub mod Showing
pub mod Telling
