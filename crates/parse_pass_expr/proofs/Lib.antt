-- What the proofs of the first pass share.
pub mod Built
pub mod Parts
pub mod Passes
pub mod Ladder
