-- How the answers on route fields are packed and read.
pub mod Answers
