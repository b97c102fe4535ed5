-- Laws of each way out of a judge.
pub mod ChainLeft
pub mod AnnounceJudges
pub mod WithdrawJudges
