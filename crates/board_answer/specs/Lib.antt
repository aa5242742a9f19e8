-- What the contracts of a board's answers cite beside the definition.
pub mod Replies
