-- Laws of all watched answers as numbers.
pub mod Answers
