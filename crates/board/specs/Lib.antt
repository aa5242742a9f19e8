-- What the contracts of a board's calls cite beside the definition.
pub mod Replies
