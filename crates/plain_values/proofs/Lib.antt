-- Laws of values of the common form.
mod BlankRuns
pub mod Values
