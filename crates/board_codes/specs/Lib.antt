-- A board's answers as numbers.
pub mod Codes
