-- What the proofs of this crate use, and those above: heads among rows, names in order, and what a table's fewer rows are asked.
pub mod Heads
pub mod Order
pub mod Tables
