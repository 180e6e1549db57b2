-- The definitions that the contracts of this crate cite.
pub mod Class
pub mod Slots
pub mod Words
