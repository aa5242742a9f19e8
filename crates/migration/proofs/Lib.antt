-- Laws of an old image carried over.
pub mod Carrying
pub mod Carried
