-- The entries of an index by the nodes.
pub mod Entries
