-- What the proofs of this crate use: rows moved.
pub mod Carried
