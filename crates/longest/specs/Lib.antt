-- What the crate's contracts speak of, and what that means.
pub mod Longest
pub mod Best
pub mod Said
pub mod Contract
pub mod Cases
