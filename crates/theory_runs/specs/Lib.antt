-- Where a declaration stands.
pub mod Runs
