-- What the proofs of the circle share.
pub mod Trees
pub mod Lone
pub mod Given
pub mod Ladder
pub mod Lists
