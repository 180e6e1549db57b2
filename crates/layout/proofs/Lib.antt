-- Laws of a laying out: rooms, tables and nodes that are a text's; and how tight its contract is.
pub mod Rooms
pub mod Laying
pub mod Tight
