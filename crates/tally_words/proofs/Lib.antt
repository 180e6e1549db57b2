-- Lists of so many counts, one by one.
pub mod Each
