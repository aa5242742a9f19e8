-- What the contracts of an entry's text cite beside the definition.
pub mod Lines
