-- Laws that the proofs of this crate lean on.
mod Words
