-- What an event's functions say.
pub mod Shapes
