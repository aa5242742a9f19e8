-- All watched answers as numbers.
pub mod Numbers
