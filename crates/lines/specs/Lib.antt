-- What the contracts of the lines cite beside the definition.
pub mod Places
