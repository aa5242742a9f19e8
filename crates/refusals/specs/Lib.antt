-- What the contract of the refusals cites.
pub mod Refusals
