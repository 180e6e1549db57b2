-- A tally with one thing more.
pub mod Steps
