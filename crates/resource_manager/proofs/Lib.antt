-- Laws of the boundary.
pub mod Fitting
pub mod Agreeing
pub mod Ordering
pub mod Carrying
pub mod Packs
pub mod Following
