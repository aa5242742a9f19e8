-- Laws of the comparing call of a start-up.
pub mod Started
