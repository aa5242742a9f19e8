-- What the contracts of the tallies cite.
pub mod Counting
