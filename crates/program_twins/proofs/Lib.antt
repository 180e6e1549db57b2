-- What the proofs of this crate use: the order of names, rows taken once each, the first twin, names given out, and the calls' own steps.
pub mod Strict
pub mod Pigeon
pub mod Answer
pub mod Chain
pub mod Steps
