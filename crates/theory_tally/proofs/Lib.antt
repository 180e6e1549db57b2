-- Theorems on figures.
pub mod Totals
pub mod Reading
pub mod Trees
pub mod Sums
pub mod Bounds
pub mod Countable
pub mod Words
pub mod Told
