-- What the contracts of both answers cite beside the definition.
pub mod Twice
