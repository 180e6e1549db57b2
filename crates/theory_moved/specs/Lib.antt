-- Moving nodes to other rows.
pub mod Moved
