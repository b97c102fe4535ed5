-- The two sides, one after the other.
pub mod Sides
