-- What the contracts of values of the common form cite.
pub mod Values
