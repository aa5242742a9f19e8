-- Laws that the proofs of the copies and of their users cite.
pub mod Copying
pub mod Pieces
