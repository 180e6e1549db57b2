-- The words in which demand 3 is stated.
pub mod Shows
pub mod Change
pub mod Scanned
pub mod Demand3
pub mod Whole
