-- Laws for the proofs of these lines.
pub mod Putting
