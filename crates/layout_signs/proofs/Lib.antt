-- What the proofs of this crate and of those that walk over nodes use.
pub mod Signs
