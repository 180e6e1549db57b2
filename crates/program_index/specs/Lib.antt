-- What the contracts of writing entries cite.
pub mod Write
