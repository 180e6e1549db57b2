-- Levels and places by the kinds of nodes, and the bytes of signs.
pub mod Levels
