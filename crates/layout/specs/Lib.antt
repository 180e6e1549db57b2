-- What the contracts of laying out cite.
pub mod Laying
