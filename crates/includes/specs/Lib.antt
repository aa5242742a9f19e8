-- What the contracts of lines and includes cite beside the definition.
pub mod Texts
