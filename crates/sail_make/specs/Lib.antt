-- What make answers.
pub mod Answers
pub mod Contract
