-- Each lexical refusal is read back from its number.
pub mod Back
