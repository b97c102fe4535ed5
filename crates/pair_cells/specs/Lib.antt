-- A party's side of a box, and what its changes leave there.
pub mod Sides
