-- What is told of a list.
pub mod Telling
