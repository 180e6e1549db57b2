-- Entries in another order.
pub mod Shuffle
