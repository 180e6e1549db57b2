-- The rows that a tree's nodes name are the tree's.
pub mod Within
