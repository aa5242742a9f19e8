-- What the contracts of getres's reports cite beside the definition.
pub mod Telling
