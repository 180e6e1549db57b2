-- What is held against a text.
pub mod Judging
