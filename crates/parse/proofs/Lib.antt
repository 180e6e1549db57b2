-- What the proofs of the parse call use: what a well-formed table gives the parser, the program's node, the call's answer and
-- memory, the first pass; and how tight its contract is.
pub mod Tables
pub mod Whole
pub mod Passing
pub mod Tight
