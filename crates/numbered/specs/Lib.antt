-- Refusals by their numbers, and what an answer says that holds one.
pub mod Numbers
