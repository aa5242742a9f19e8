-- Laws of the entries.
pub mod Entries
