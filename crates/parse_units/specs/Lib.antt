-- What the contracts of this crate cite: a unit's contents.
pub mod Contents
