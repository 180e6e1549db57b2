-- "Lay out a probe" as definitions.
pub mod Rows
pub mod Bytes
pub mod Layout
pub mod Cases
