-- What the proofs of a text read alone use, what its callers learn, and how tight its contract is.
pub mod Told
pub mod Tight
