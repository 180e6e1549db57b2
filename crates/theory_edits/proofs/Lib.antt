-- The theorems on edits. To be read from the end: `Demand3` is the theorem, `Calls` and `Whole` what follows of it; `Fresh`, `WellFormed` and
-- `FourBytes` are its three parts. Before them, about the machine: what is known of its steps, of its scan (from a place on, its kept rows,
-- its rows from one on, moved, without newlines, behind other comments, between characters), and of its scan of a window.
pub mod Places
pub mod Lines
pub mod Steps
pub mod Stand
pub mod Kept
pub mod From
pub mod Moved
pub mod Flat
pub mod Gap
pub mod Look
pub mod LookItem
pub mod Short
pub mod Meeting
pub mod Bytes
pub mod Fresh
pub mod Tokens
pub mod Well
pub mod WellFormed
pub mod Low
pub mod FourBytes
pub mod Demand3
pub mod Calls
pub mod Whole
