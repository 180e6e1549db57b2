-- The laws that the proofs of this crate share.
pub mod Runs
pub mod Quotes
pub mod Words
pub mod Bodies
pub mod Lines
