-- What a key's end tells.
pub mod Ends
