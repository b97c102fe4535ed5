-- Laws of the test, and that it passes exactly what a build leaves.
pub mod Meaning
pub mod Builds
pub mod Held
pub mod Exact
pub mod Serves
pub mod Steps
pub mod TestReturns
pub mod Neighbours
pub mod NodeTests
pub mod AsBuilt
pub mod Judged
pub mod Visits
