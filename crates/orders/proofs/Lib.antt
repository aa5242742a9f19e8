-- Laws of document 02 (vii), each layer from those above it.
pub mod Rows
pub mod Answers
pub mod Winning
pub mod Drawing
pub mod Agreeing
pub mod Calls
pub mod IncludeLines
pub mod Joined
pub mod Meeting
pub mod Packs
pub mod OnePack
pub mod Readings
