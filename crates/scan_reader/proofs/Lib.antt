-- The laws that the proofs of this crate share.
pub mod Moves
pub mod Settled
pub mod Numbers
pub mod Signs
pub mod Strings
pub mod Items
pub mod Reasons
pub mod Told
