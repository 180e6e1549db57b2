-- The laws that the proofs of this crate share.
pub mod Lookups
pub mod Telling
pub mod Marks
pub mod Tables
