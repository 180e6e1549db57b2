-- What the proofs of this crate use: one step of the reading, its loop, and what is left.
pub mod Steps
pub mod Going
pub mod Left
