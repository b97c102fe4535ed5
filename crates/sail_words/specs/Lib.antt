-- What lookups answer as words.
pub mod Lookups
