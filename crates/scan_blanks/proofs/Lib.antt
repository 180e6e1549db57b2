-- The laws that the proofs of this crate share.
pub mod Passing
pub mod Blanks
