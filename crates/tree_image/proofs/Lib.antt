-- Laws of images and of the walk.
pub mod Walks
pub mod Judged
pub mod Matches
pub mod Counts
pub mod Parts
pub mod Nodes
pub mod Longest
pub mod Holds
pub mod Filled
pub mod Lies
pub mod Levels
pub mod Needs
pub mod Serves
pub mod ReadCounts
pub mod Ranks
pub mod Marks
pub mod Useds
