-- What announce and withdraw say at each return, and that each leaves one answer.
pub mod ChangeReturns
pub mod OneAnswer
