-- What the proofs of this crate use: one block held and written.
pub mod One
