-- What the contracts of an addition cite beside the definition.
pub mod Only
pub mod Appending
