-- What a word says, as an answer.
pub mod Told
