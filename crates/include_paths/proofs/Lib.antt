-- Laws that the proofs of this crate lean on.
pub mod Splitting
pub mod Reducing
pub mod Taking
pub mod Seeking
