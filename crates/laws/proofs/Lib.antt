-- Laws that several crates use, each file over those above it: tests, lists, lists below a bound, the bytes of a text that meet a test, places in a text, characters
-- and which bytes a text may hold, rows in words, what a call over a table is told, spellings compared,
-- and by what a contract is shown to be tight.
pub mod Tests
pub mod Lists
pub mod Bounds
pub mod Fronts
pub mod Places
pub mod Chars
pub mod Valid
pub mod Rows
pub mod Calls
pub mod Spelled
pub mod Tight
pub mod Outcomes
pub mod Chains
