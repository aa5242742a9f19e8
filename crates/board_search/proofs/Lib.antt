-- Laws of a search over a board.
pub mod Numbering
pub mod Searching
pub mod Asking
pub mod Finding
