-- The words in which the theorems on layouts are stated.
pub mod Back
pub mod Fewest
