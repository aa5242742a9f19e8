-- What the contracts of the walks cite beside the definition.
pub mod Replies
