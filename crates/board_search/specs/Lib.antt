-- What the contracts of a search over a board cite beside the definition.
pub mod Slots
pub mod Spots
