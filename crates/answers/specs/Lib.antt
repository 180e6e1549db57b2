-- The words in which the outer face answers.
pub mod Layout
