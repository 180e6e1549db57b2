-- Theorems on the layout call's answers.
pub mod Trees
pub mod Answers
pub mod Back
pub mod Nodes
