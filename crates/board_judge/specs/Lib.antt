-- What the contracts of the judging of a board cite beside the definition.
pub mod Slots
