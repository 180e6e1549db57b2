-- docs/LANGUAGE.md as definitions, a module for each of its parts.
pub mod Outcomes
pub mod Text
pub mod Kinds
pub mod Fits
pub mod Refusals
pub mod Back
pub mod Rows
pub mod Lex
pub mod Scan
pub mod Sets
pub mod Edit
pub mod Tree
pub mod Nodes
pub mod Parse
pub mod Grammar
pub mod Calls
pub mod Names
