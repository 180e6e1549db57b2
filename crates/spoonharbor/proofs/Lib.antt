-- The theorems on the outer face: demands 2 and 3, stored, moved and mended tables in words, and how tight each call's contract is.
pub mod Outer
pub mod OuterChange
pub mod OuterFiles
pub mod OuterForms
pub mod OuterMend
pub mod OuterParse
pub mod Tight
