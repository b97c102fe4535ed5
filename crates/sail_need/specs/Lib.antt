-- What counting needs asks, what is kept on the way, and what weighing them asks.
pub mod Need
pub mod LastLong
pub mod Weigh
