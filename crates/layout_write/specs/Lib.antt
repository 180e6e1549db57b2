-- What the contract of the walk over a program cites.
pub mod Lent
