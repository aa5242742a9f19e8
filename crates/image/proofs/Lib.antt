-- Laws of an image's rows, and of a reading as the code runs it.
pub mod Rows
pub mod Runs
pub mod Images
pub mod Clearing
