-- The words in which the theorems on the grammar are stated.
pub mod Tokens
pub mod Lost
pub mod Fitting
pub mod Order
pub mod Loops
