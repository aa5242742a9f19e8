-- Laws of the reading without a file.
pub mod Second
