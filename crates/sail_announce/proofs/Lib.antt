-- What joins the code of announce to its definition, and that its answers are told apart.
pub mod AnnounceReturns
pub mod Injective
pub mod OneAnswer
