-- Laws that the proofs of the scanners and of their callers cite.
mod Bytes
pub mod Runs
pub mod Bridges
pub mod Suffixes
pub mod Beginnings
