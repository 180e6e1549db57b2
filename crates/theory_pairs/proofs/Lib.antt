-- Two edits of one text. `Texts` has the laws of texts, over `Tails`, what is known of bytes with a part in common; `Made`
-- what one edit made by a call tells and leaves; `Turns` the theorems over the calls; `Merges` several edits on both sides.
pub mod Tails
pub mod Texts
pub mod Made
pub mod Turns
pub mod Merges
