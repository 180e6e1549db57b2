-- What the proofs of this crate use: places counted on, what is known of a file that holds a table, its rows beside the text, agreement,
-- the rows that are put, the answer; and how tight the call's contract is.
pub mod Places
pub mod Known
pub mod Rows
pub mod Agreeing
pub mod Putting
pub mod Answers
pub mod Tight
