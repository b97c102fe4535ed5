-- Withdraw in a box of two.
pub mod Closed
pub mod Taking
pub mod Contract
