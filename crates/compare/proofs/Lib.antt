-- Laws of the comparing call.
pub mod Comparing
