-- The definitions that the contracts here cite.
pub mod Steps
