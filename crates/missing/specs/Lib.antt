-- What is told of includes that find no file, and what the contracts of this crate cite.
pub mod Missing
pub mod Looking
pub mod Reaching
