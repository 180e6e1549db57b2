-- The laws of each kind of piece, and the theorems that the machine gives what the scan rules give.
pub mod Spans
pub mod Shown
pub mod Runs
pub mod Words
pub mod Comments
pub mod Strings
pub mod Numbers
pub mod Signs
pub mod Pieces
pub mod Scans
pub mod Same
