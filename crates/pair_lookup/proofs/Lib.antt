-- The laws of a party's lookup.
pub mod Looks
pub mod OneAnswer
