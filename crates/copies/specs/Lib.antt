-- What the contracts of the copies cite beside the definition.
pub mod Plain
pub mod Appended
