-- What the proofs of writing entries use.
pub mod Filling
