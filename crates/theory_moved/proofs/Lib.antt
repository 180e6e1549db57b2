-- The law of moving.
pub mod Moved
