-- A party's change on the real arrays of a box.
pub mod Mixes
pub mod Boxes
