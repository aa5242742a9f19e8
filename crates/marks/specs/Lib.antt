-- What the code's rows of marks stand for.
pub mod Rows
