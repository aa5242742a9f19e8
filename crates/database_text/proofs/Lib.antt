-- Laws of a database that getres writes out.
pub mod Telling
