-- The laws behind this crate's proofs, and that the promise of `listing` determines it.
pub mod Rooms
pub mod Tight
