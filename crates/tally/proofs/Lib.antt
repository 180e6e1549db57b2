-- What the loop's proof stands on, and how tight the contract is.
pub mod More
pub mod Going
pub mod Tight
