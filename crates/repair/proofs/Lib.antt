-- Laws that the functions' proofs cite.
pub mod Repairing
pub mod OneAnswer
