-- What the contracts of what the list program writes cite beside the definition.
pub mod Listing
pub mod Examples
