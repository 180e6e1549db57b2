-- The laws that the proofs of this crate share.
pub mod Looks
pub mod Walks
