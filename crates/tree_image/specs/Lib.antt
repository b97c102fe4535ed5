-- What an image is, and what a lookup in it says.
pub mod Node
pub mod Walk
pub mod Cases
pub mod Parts
pub mod Image
pub mod Levels
pub mod Reads
pub mod Done
