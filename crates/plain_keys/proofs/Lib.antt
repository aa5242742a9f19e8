-- Laws of keys of the common form.
pub mod Ends
pub mod Keys
