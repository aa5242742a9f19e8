-- What the contracts of these lines cite.
pub mod Lines
