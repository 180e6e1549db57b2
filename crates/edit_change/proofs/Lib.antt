-- What a change tells, by its order; the theorems: it never says 7, and it is a fresh scan; the same over the calls'
-- own contracts, the edit's too; and how tight its contract is.
pub mod Calls
pub mod Never
pub mod Demand3
pub mod Posts
pub mod Tight
