-- What withdraw answers.
pub mod Answers
pub mod Contract
