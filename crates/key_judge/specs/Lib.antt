-- A key by its neighbouring bytes, a second form of the definition's.
pub mod Pairs
