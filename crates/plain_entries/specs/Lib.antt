-- What the contract of a line of the common form cites.
pub mod Entries
