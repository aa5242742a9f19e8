-- What the contracts of a walk's lines cite beside the definition.
pub mod Lines
