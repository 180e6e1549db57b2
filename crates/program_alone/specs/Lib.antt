-- What a text alone is told, as definitions.
pub mod Told
