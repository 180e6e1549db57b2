-- The comments of a text, defined over its bytes alone, and worked cases.
pub mod Comments
pub mod Cases
