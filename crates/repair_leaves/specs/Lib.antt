-- What counting the cells asks that are to be leaves or 0, and what it counts.
pub mod Leaves
