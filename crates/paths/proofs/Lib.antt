-- Laws that the proofs of this crate lean on.
pub mod Folders
