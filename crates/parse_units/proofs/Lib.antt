-- What the proofs of a unit's functions use: the answers over contents.
pub mod Answers
