-- What each answer of a build says, and what an accepted one serves.
pub mod BuildReturns
pub mod OneAnswer
pub mod Serves
pub mod Judged
