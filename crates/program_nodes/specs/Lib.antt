-- What the contracts of writing both texts' nodes cite.
pub mod Write
