-- The theorems on the parse call: `Demand2` is the theorem, `Fits` says what the words of a refusal tell, and `Answers` what follows of it.
pub mod Demand2
pub mod Fits
pub mod Answers
