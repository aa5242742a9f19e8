-- What the contracts of the list program's lines cite beside the definition.
pub mod Lines
