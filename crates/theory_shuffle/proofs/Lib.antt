-- Laws of entries in another order.
pub mod Shuffle
pub mod Settle
