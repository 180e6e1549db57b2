-- Names over the rows of two texts, as definitions.
pub mod Heads
pub mod Asks
pub mod Both
