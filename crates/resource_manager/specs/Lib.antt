-- What the contracts of the boundary cite beside the definition.
pub mod Boundary
