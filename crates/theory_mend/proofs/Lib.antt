-- Theorems about mended files.
pub mod Words
pub mod Listed
pub mod Fresh
pub mod Ways
pub mod Mended
