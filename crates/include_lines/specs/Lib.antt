-- What the contracts of include lines cite beside the definition.
pub mod Includes
