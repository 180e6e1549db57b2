-- What laws and contracts cite: a test of each number below a bound, lists below a bound, and what is said of each call's contract.
pub mod Tests
pub mod Bounds
pub mod Tight
