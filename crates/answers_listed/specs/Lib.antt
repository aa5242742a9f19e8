-- What the contracts of getres's lists cite beside the definition.
pub mod Listed
pub mod Examples
