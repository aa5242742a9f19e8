-- What the answer of the comparing call is.
pub mod Answering
