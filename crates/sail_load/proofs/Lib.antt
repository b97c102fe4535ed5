-- Laws that the functions' proofs cite.
pub mod Loads
pub mod OneAnswer
