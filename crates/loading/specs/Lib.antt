-- What the contracts of loading cite.
pub mod Loading
