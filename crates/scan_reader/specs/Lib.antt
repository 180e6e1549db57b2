-- What the contracts of this crate cite: spots, and what is told of an item.
pub mod Read
pub mod Brief
