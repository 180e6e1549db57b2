-- What the proofs of the first pass over a unit share.
pub mod Parts
