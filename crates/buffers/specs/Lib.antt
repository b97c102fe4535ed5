-- What is written over a list of numbers.
pub mod Fill
