-- What the contracts of shared keys cite beside the definition.
pub mod Replies
