-- What is claimed of mended files.
pub mod Mended
