-- What the contracts of this crate cite: bodies.
pub mod Bodies
