-- What announce answers.
pub mod Answers
pub mod Contract
