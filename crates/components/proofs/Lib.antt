-- Laws that the proofs of the parts cite.
mod Bindings
pub mod Names
mod Parts
mod Turns
mod Verbatim
mod Counting
pub mod Writing
pub mod Rests
