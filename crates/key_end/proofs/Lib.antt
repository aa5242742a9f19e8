-- The mathematics behind the proofs of the code.
pub mod Ends
