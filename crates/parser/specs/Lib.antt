-- What the contract of an entry cites beside the definition.
pub mod Putting
