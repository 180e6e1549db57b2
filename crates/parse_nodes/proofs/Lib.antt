-- What the proofs of a parser's functions use: the rows and the tokens that they and the text tell, what the code sees in a row's
-- words, a call's answer and a loop's turn, and the state and the memory behind a tree from those behind its parts.
pub mod Rows
pub mod Told
pub mod Seen
pub mod Turn
pub mod Steps
pub mod Errs
pub mod Fitting
