-- What the proofs of the judging share, and what a judged image gives a lookup.
pub mod Rows
pub mod Judged
pub mod Parts
