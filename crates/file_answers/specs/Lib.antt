-- The words in which the calls over files answer.
pub mod Layout
