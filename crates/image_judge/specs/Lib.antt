-- What the contracts of the judging cite beside the definition.
pub mod Rows
