-- The laws that the proofs of this crate share.
pub mod Gaps
pub mod Meetings
