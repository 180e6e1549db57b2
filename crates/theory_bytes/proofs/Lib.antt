-- The bytes that a text may hold are those of the grammar.
pub mod Octets
