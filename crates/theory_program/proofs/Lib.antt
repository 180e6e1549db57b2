-- Laws of a program of two texts.
pub mod Lists
pub mod Nodes
pub mod Heads
pub mod Index
pub mod Twins
