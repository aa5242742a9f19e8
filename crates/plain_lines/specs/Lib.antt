-- What the contracts of lines of the common form cite.
pub mod Lines
