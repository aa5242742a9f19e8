-- Laws of a board, each layer from those above it.
pub mod Placing
pub mod Fronts
pub mod Slots
pub mod Overwritten
pub mod Calls
pub mod Histories
pub mod Beyond
pub mod Answers
