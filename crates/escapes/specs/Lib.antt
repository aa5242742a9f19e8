-- What the contracts of escapes cite.
pub mod Pieces
