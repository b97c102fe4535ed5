-- Laws of the build, and what it is worth.
pub mod Fills
pub mod BuildReturns
pub mod Judged
pub mod OneAnswer
pub mod Serves
