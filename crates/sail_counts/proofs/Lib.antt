-- Laws that the proofs of the functions and the calls cite.
pub mod Owners
pub mod Ticks
pub mod Steps
pub mod Leads
pub mod Tallies
pub mod Loads
pub mod SharedCounts
