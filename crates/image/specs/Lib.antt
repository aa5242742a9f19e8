-- An image as the code reads and writes it: its rows, and a reading as the code runs it, over counts and buffers (a second form of the
-- definition's judging and image).
pub mod Rows
pub mod Running
