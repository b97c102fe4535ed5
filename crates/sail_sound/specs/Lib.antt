-- What the soundness test asks of the three levels, and what the report says.
pub mod TableTest
pub mod Seen
pub mod Report
pub mod Contract
