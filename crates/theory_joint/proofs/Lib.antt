-- The theorem on two texts.
pub mod Joint
pub mod Empty
pub mod Figures
