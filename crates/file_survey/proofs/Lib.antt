-- What the proofs of this crate use: rows in blocks part behind part, the fresh file and what is listed of it, the
-- reading's loop and one step of it, and what it tells.
pub mod Parts
pub mod Files
pub mod Holding
pub mod Steps
pub mod Surveyed
