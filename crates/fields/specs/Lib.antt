-- What the contracts of the fields cite beside the definition.
pub mod Fields
