-- Laws of the texts of a reading.
pub mod Texts
