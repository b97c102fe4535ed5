-- What joins the code of withdraw to its definition, and that its answers are told apart.
pub mod WithdrawReturns
pub mod Injective
pub mod OneAnswer
