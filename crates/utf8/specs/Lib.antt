-- What the contracts of the test of UTF-8 cite beside the definition.
pub mod Characters
