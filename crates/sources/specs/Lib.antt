-- What the contracts of a start-up and of its texts cite beside the definition.
pub mod Lending
