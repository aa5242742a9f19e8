-- What the contracts of a chain's steps cite.
pub mod Steps
