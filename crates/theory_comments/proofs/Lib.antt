-- The counts of a scan's rows add up to the text's comments.
pub mod Bytes
pub mod States
pub mod Comments
