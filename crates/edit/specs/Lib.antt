-- What the contracts of this crate cite: the parts of an edit.
pub mod Job
