-- The words in which the laws of a program of two texts are stated.
pub mod Lists
pub mod Heads
pub mod Index
