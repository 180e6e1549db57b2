-- What the proofs of this crate use, from what is seen of a window up to the whole call; and how tight the calls' contracts are.
pub mod Facts
pub mod Tails
pub mod Seens
pub mod Jobs
pub mod Calls
pub mod Tight
