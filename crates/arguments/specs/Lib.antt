-- What the contracts of the arguments cite.
pub mod Planning
pub mod Examples
