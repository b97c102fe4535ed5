-- Laws that the proofs of the functions cite.
pub mod CountRuns
pub mod Above
pub mod Exact
