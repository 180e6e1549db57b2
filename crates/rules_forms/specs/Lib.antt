-- "A smaller stored form" as definitions: files of form 2, and the calls that have the text at hand.
pub mod Short
pub mod Forms
pub mod Shapes
pub mod Cases
