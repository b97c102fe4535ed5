-- Laws of the words of an image, and the theorems on runs.
pub mod Narrow
pub mod ImageRuns
pub mod Same
