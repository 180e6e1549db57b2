-- The words in which the theorems about moved files are stated.
pub mod Forms
