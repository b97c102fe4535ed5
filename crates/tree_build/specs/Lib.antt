-- What a build answers and leaves.
pub mod Built
pub mod Cases
pub mod Contract
