-- What the proofs of this crate use: rows in the bytes of a file, the judging of its blocks, the tests of its table, the taking of its
-- rows, the answer; and how tight the call's contract is.
pub mod Rows
pub mod Judging
pub mod Tests
pub mod Taking
pub mod Answers
pub mod Tight
