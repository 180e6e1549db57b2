-- "A site prelude" as definitions.
pub mod Both
pub mod Names
pub mod Program
pub mod Find
pub mod Cases
