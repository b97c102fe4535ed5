-- Laws of the longest record, and of the call that answers it.
pub mod Shares
pub mod Steps
pub mod Bests
pub mod Returns
pub mod Judged
pub mod OneAnswer
