-- What counting asks.
pub mod Differs
