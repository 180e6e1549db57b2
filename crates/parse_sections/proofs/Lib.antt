-- What the proofs of this crate and of a unit use: sections and their kinds.
pub mod Sections
