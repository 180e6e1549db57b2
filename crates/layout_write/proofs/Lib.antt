-- What the proofs of this crate use.
pub mod Bytes
pub mod Facts
pub mod Nodes
pub mod Made
pub mod Whole
