-- What the judges of changes promise.
pub mod Announce
pub mod Chain
pub mod Withdraw
