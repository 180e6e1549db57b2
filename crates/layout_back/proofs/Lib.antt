-- What the proofs of this crate use.
pub mod Back
