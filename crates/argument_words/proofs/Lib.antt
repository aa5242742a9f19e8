-- Laws that the proofs of this crate lean on, and those of options.
pub mod Words
