-- A range of a list of numbers that is zero.
pub mod Zeros
