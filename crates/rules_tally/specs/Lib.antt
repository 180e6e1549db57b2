-- "Fleet figures" as definitions.
pub mod Tally
pub mod Calls
pub mod Cases
