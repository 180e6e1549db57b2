-- What the proofs of this crate use: what is told and left; and how tight the call's contract is.
pub mod Told
pub mod Tight
