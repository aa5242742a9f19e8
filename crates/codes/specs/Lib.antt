-- What the contracts of the codes cite beside the definition.
pub mod Codes
