-- What the contracts of the scanners cite beside the definition.
pub mod Scanned
