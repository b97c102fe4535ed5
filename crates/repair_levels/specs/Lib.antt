-- What counting the cells of three levels asks, and what it counts.
pub mod Levels
