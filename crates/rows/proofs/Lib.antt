-- What the proofs of this crate use: lists of rows, what a well-formed table holds, lengths, shapes, whole tables, judging; and how tight the calls' contracts are.
pub mod Lists
pub mod Inside
pub mod Lengths
pub mod Shapes
pub mod Tables
pub mod Judging
pub mod Tight
