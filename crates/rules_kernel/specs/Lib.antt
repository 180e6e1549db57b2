-- "The kernel's own map rules" as definitions.
pub mod Rules
pub mod Profile
pub mod Cases
