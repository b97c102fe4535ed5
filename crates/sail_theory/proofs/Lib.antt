-- Theorems on tables and on the calls that change them.
pub mod Judges
pub mod places
pub mod owners
pub mod frames
pub mod calls
pub mod runs
