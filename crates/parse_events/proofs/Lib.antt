-- The nodes of fields and events.
pub mod Nodes
