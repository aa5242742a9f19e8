-- What the contracts of keys of the common form cite.
pub mod Ended
pub mod Keys
