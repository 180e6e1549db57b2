-- What adding asks.
pub mod Adding
