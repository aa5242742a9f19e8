-- Laws for the proofs of shared keys.
pub mod Sharing
