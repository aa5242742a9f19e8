-- What the contracts of the writing call cite beside the definition.
pub mod Extents
