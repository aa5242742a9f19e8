-- Laws of the reading call.
pub mod Finishing
