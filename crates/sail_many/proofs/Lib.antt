-- Laws of words on their way, and what they answer.
pub mod Flows
pub mod LookupWords
