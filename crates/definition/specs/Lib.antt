-- What is right: document 01, in its order, and what document 02 adds, from Xlib manual chapter 15 and X(7) RESOURCES.
-- A byte, a word and a length are natural numbers, and a text is a list of bytes.
pub mod Lists
pub mod Parsing
pub mod Limits
pub mod Bytes
pub mod Archive
pub mod Text
pub mod Including
pub mod Image
pub mod Reading
pub mod StartUp
pub mod Writing
pub mod Query
pub mod Matching
pub mod Ranking
pub mod Lookup
pub mod Value
pub mod Window
pub mod Walking
pub mod Adding
pub mod Migration
pub mod ThirdTerm
pub mod Orders
pub mod Board
pub mod Nesting
pub mod Evaluation
mod Examples
mod NameBytes
mod Manual
mod Starts
mod Paths
mod Depths
mod Texts
mod Walks
mod Orderings
mod Origins
mod Boards
mod Numbers
mod Recorded
