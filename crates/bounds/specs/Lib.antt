-- Examples of the definition at document 01's limits.
pub mod Lookups
mod Walks
mod Origins
mod Bounds
