-- Laws of a text's events, line by line.
pub mod Lines
pub mod Opening
pub mod Loop
