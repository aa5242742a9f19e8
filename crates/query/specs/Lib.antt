-- What a split stands for in its text, and what a text's parse is.
pub mod Splits
pub mod Shapes
