-- The words in which the theorems about stored tables are stated.
pub mod Whole
