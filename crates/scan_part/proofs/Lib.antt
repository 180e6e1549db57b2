-- The laws of readings, of the loop, and of part behind part for whoever reads them.
pub mod Readings
pub mod Parts
pub mod Onward
