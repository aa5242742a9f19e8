-- What the contracts of getres's options cite.
pub mod Options
