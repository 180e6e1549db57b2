-- "Keep the rows in a file" as definitions: numbers in bytes, blocks over any row size, and the files of form 1 with the calls over them.
pub mod Bytes
pub mod Blocks
pub mod Files
pub mod Cases
