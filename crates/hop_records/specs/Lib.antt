-- Hop records: what forwarding a packet says and leaves.
pub mod Records
pub mod Forward
pub mod Runs
pub mod Cases
pub mod Contract
pub mod Steps
