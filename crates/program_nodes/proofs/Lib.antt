-- What the proofs of writing both texts' nodes use: what is read, a last node's words, and each function's steps.
pub mod Read
pub mod Ends
pub mod Writing
