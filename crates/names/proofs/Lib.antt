-- What the proofs of this crate use: a text that is too short for a spelling.
pub mod Spellings
