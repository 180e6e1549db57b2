-- What the lister writes of a text, and worked cases of it.
pub mod Lines
pub mod Cases
