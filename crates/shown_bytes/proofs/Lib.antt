-- Laws that the proofs of this crate and of its callers cite.
pub mod Showing
