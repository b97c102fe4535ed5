-- Laws of hop records.
pub mod Steps
pub mod Meanings
pub mod Counts
pub mod Runs
pub mod Judged
pub mod OneAnswer
