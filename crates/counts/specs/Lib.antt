-- How many long routes a cell holds, and what is stored of it.
pub mod Counts
