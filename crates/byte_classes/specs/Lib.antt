-- What the contracts of the table cite beside the definition.
pub mod Classes
