-- Laws of what is held against a text, and the calls that hold it.
pub mod Same
pub mod Held
pub mod Read
