-- What the proofs of this crate use: the table of sections and the masks; and how tight the calls' contracts are.
pub mod Spellings
pub mod Masks
pub mod Tight
