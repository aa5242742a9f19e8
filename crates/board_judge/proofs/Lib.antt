-- Laws of the judging of a board.
pub mod Judging
pub mod Images
