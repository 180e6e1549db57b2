-- The law that the proofs of this crate and of the edit share.
pub mod Room
