-- Laws of both answers.
pub mod Twice
