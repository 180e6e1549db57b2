-- "Mend a damaged file" as definitions.
pub mod Mend
pub mod Cases
