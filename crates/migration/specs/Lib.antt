-- What the contracts of the migration cite beside the definition.
pub mod Carrying
