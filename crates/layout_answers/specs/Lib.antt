-- The words in which a laying out answers.
pub mod Words
