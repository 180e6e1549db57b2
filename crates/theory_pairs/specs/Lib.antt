-- The calls of `edit`, `edit_change` and `scan` as they are made, and two edits made by them.
pub mod Calls
pub mod Turns
