-- The words in which demand 2 is stated.
pub mod Demand2
