-- What the contracts of this crate cite besides the definitions.
pub mod Columns
