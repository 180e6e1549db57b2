-- What the proofs of the statements' functions share.
pub mod Trees
pub mod Lists
