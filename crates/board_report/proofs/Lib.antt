-- Laws of a board's report.
pub mod Reporting
