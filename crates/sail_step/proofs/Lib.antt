-- Laws of a word and of one step of it.
pub mod Words
