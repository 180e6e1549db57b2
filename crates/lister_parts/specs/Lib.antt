-- What the lister writes of rows, of nodes and of a refusal, and what the contracts of the functions below it cite.
pub mod Parts
pub mod Adds
