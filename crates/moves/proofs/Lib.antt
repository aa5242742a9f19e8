-- Laws of copies and moves.
pub mod Moving
