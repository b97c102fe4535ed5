-- What the crate's contracts speak of.
pub mod Run
pub mod Tally
pub mod Cases
pub mod Contract
