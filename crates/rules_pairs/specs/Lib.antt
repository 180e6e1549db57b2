-- Two edits of one text, in either order and in a row, as definitions; several of them since a common text; and worked pairs.
pub mod Pairs
pub mod Merges
pub mod Cases
