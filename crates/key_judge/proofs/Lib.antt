-- What the proofs of the judging share.
pub mod Bytes
pub mod Keys
pub mod Pairs
