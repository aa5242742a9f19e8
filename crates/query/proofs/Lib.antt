-- Laws of split queries, and what the parses of name and class say of a query.
pub mod Splits
pub mod Taken
pub mod Starts
pub mod Splitting
pub mod Queries
