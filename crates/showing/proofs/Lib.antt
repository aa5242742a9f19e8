-- Laws of an answer's line.
pub mod Lines
