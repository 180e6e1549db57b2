-- Laws of numbers in decimal.
pub mod Decimals
