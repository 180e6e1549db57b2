-- What the contracts of those that write whole programs cite.
pub mod Things
