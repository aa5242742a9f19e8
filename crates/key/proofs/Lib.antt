-- The mathematics behind the proofs of the code, and what a split key gives a match.
pub mod Keys
pub mod Bounding
pub mod Bounds
