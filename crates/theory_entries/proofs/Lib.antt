-- The nodes of a program have the entries of what it declares.
pub mod Entries
