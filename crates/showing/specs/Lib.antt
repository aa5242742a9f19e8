-- What the contracts of an answer's line cite beside the definition.
pub mod Showing
