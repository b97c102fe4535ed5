-- Laws of runs, of the bits of a node, of its hops and its children, and of the nodes counted.
pub mod Marks
pub mod Scans
pub mod Stores
pub mod NodeRuns
pub mod Words
pub mod Hops
pub mod Kids
pub mod Levels
