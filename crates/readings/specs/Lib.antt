-- What the contracts of the readings cite beside the definition.
pub mod Replies
pub mod Showing
