-- Laws of lines of the common form.
pub mod Entries
