-- Laws of numbers in bytes, of one block and of rows in blocks; the theorems about whole files, over any row size, and about form 1.
pub mod Numbers
pub mod One
pub mod Many
pub mod Whole
pub mod Told
pub mod Said
pub mod Files
