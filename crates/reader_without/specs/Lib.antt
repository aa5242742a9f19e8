-- What the contract of the reading without a file cites beside the definition.
pub mod Second
