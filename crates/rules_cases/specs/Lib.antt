-- The worked cases of LANGUAGE.md 12, of bytes, of texts, of tables, of sets and of edits.
pub mod Bytes
pub mod Cases
pub mod Tables
pub mod Fits
pub mod Edits
