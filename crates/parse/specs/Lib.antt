-- What the contracts of this crate cite: the reading of a whole table.
pub mod Program
