-- The theorems over the outer face's calls as they are made.
pub mod Calls
pub mod Lent
pub mod Scans
pub mod Sets
pub mod Edits
pub mod Layouts
pub mod Pairs
pub mod Files
pub mod Forms
pub mod Mends
pub mod Rooms
pub mod Figures
