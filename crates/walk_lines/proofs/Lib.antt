-- Laws of a walk's lines.
pub mod Lines
pub mod Walks
