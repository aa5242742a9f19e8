-- What the contract of the comparing call cites beside the definition.
pub mod Comparing
