-- The scan as a machine that reads one byte at a time, and its items.
pub mod Machine
pub mod Items
