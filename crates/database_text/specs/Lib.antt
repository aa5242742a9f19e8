-- What the contracts of a database that getres writes out cite beside the definition.
pub mod Database
pub mod Examples
