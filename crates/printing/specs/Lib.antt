-- What the contracts of those that print cite.
pub mod Putting
