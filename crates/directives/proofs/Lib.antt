-- Laws that the proofs of this crate and of its callers cite.
mod Quotes
pub mod Includes
