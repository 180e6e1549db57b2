-- What the proofs of this crate and of the listing share.
pub mod Adding
pub mod Decimals
pub mod Lists
pub mod Shorts
