-- What the contracts of those that write lines cite.
pub mod Lines
