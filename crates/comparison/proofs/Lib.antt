-- Laws of the comparing call's answer.
pub mod Answered
