-- Laws of the readings.
pub mod Readings
