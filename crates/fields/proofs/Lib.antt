-- Laws of the fields of a recorded line.
mod Digits
mod Taking
mod Passing
mod Rows
