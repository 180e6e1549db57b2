-- The change call, and the words of the theorems on it.
pub mod Change
pub mod Fresh
