-- Laws of the lines: how the code comes to its answer, and what the answer says of the definition's line.
mod Fronts
pub mod Lined
