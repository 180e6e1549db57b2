-- What the proofs of this crate use: a form's blocks of rows, the loop that writes them, what is told;
-- and how tight the call's contract is.
pub mod Bodies
pub mod Going
pub mod Answers
pub mod Tight
