-- Laws that the proofs of the blocks and of their users cite.
pub mod Blocks
