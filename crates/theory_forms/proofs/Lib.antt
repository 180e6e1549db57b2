-- The theorems about files of both forms and about moved files, a file over those before it.
pub mod Older
pub mod Short
pub mod Lines
pub mod Written
pub mod Agree
pub mod Moves
pub mod Alike
pub mod Back
pub mod Changed
