-- What the contracts of the reading call cite beside the definition.
pub mod Said
