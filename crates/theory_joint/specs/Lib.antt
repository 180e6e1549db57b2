-- The words of the theorem on two texts.
pub mod Joint
