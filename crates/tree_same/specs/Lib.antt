-- The routes that words and hops hold, their list, and the fixed order of nodes.
pub mod Read
pub mod Listed
pub mod Order
pub mod Holding
pub mod OneImage
