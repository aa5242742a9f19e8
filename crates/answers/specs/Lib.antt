-- What the contracts of getres's answers cite beside the definition.
pub mod Answering
