-- The party that a call is made for.
pub mod Guests
