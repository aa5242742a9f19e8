-- What a split key is, and what its bounds stand for.
pub mod Keys
