-- That an answer is read back out of its number, and that nothing else is in it.
pub mod Refusals
pub mod Unpacks
pub mod Parts
pub mod ImageAnswers
