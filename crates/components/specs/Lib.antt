-- What the contracts of the parts' parsers cite beside the definition.
pub mod Parts
