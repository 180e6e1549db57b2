-- What the layout call answers, in words.
pub mod Answer
pub mod Nodes
