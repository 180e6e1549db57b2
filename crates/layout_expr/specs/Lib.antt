-- What the contracts of those that write expressions cite.
pub mod Parts
pub mod Written
