-- Names by rows and names by declarations.
pub mod Heads
