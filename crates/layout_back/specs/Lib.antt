-- What the contracts of those that write bytes from the last to the first cite.
pub mod Back
pub mod Words
