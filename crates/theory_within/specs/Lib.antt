-- Rows that nodes name.
pub mod Within
