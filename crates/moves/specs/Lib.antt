-- What is moved in a list of numbers.
pub mod Moves
