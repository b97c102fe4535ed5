-- The laws of runs and tallies, and what joins the code to them.
pub mod Runs
pub mod Judged
pub mod Tallies
pub mod OneAnswer
