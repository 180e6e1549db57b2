-- What the proofs of this crate use, and how tight the call's contract is.
pub mod Going
pub mod Tight
