-- What joins the code to the definitions of the calls.
pub mod Shuts
pub mod Takings
pub mod BoxTakings
pub mod PairReturns
pub mod OneAnswer
