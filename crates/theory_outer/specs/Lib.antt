-- The calls of the outer face as they are made, and the words of the theorems over them.
pub mod Calls
pub mod Said
pub mod Pairs
