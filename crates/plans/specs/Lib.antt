-- What the contracts of a plan cite.
pub mod Plans
