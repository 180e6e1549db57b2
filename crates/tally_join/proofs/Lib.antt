-- What the proofs of joining share, and how tight the contract is.
pub mod Adds
pub mod Tight
