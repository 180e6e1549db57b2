-- Theorems on layouts.
pub mod Fields
pub mod Laid
pub mod Twice
pub mod Fewest
pub mod Faces
pub mod Among
pub mod Scanned
pub mod Shape
pub mod Goods
pub mod Spelt
pub mod Written
pub mod ReadBack
pub mod Words
