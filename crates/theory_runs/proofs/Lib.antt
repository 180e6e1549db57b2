-- The other units stay put.
pub mod Runs
