-- Laws of lines of the common form, one after another.
pub mod Lines
pub mod Lining
