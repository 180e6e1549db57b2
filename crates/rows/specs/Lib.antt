-- What the contracts of this crate cite: tests of one row and of all.
pub mod Shape
