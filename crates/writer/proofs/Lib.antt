-- Laws of the writing call.
pub mod Sizes
pub mod Texts
