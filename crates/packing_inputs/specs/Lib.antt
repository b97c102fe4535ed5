-- How the answer of a broadcast is packed, and what a tally into words leaves.
pub mod Casts
pub mod Tallies
