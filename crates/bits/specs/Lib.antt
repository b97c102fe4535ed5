-- What the crate's contracts and those above it speak of.
pub mod Slot
pub mod Bit
pub mod Bytes
pub mod Search
pub mod Tab
pub mod Count
pub mod Number
