-- Answers and loops; types, limits, the facts behind each field, and those of a list of fields.
pub mod Words
pub mod Answers
pub mod Loops
pub mod Limits
pub mod Last
pub mod Listed
