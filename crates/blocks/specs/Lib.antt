-- What the contracts of the blocks cite beside the definition.
pub mod Either
