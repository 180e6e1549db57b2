-- Names that were declared before, as the functions that look for them speak of them.
pub mod Given
