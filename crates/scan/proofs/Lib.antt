-- The laws that the proofs of this crate share, the theorems on the scan, and how tight its contract is.
pub mod Scans
pub mod Tight
