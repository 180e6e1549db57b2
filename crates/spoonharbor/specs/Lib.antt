-- What the calls of the outer face answer, in words, and the version.
pub mod OuterChange
pub mod OuterEdit
pub mod OuterFiles
pub mod OuterForms
pub mod OuterMend
pub mod OuterParse
pub mod Version
