-- What the proofs of single steps share.
pub mod Sizes
