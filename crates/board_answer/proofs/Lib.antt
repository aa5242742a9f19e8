-- Laws of a board's answers.
pub mod Answering
