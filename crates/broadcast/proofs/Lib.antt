-- Laws of directed broadcast: of the highest address of a route, of what the definitions mean, and of the code's answers.
pub mod Highs
pub mod Casts
pub mod Judged
pub mod BroadcastReturns
pub mod OneAnswer
