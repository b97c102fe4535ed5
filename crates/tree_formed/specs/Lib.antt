-- When an image is well formed, what its test says, and what that is to mean.
pub mod WellFormed
pub mod Bases
pub mod Answers
pub mod Buildable
pub mod Cases
pub mod Visits
