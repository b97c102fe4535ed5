-- What load answers, and its statement.
pub mod Answers
pub mod Contract
