-- What the code asks of what it has passed.
pub mod Passed
