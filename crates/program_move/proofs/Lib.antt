-- What the proofs of moving use: the words of one node, and a list of nodes of which some are moved.
pub mod First
pub mod Going
