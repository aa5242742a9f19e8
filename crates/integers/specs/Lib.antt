-- What the code's answers say of a value's bytes.
pub mod Readings
