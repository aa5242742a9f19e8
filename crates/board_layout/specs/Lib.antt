-- What the contracts of a board's parts cite beside the definition.
pub mod Laid
