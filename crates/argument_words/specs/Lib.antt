-- What the contracts of this crate cite besides the definition.
pub mod Words
