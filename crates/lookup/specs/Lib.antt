-- What the contracts of the lookups cite beside the definition.
pub mod Replies
pub mod Searches
