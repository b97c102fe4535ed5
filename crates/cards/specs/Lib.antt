-- What each exported call answers and leaves.
pub mod Cards
pub mod Maps
pub mod Narrow
pub mod Images
pub mod Forwarded
pub mod RouteFields
pub mod Pairs
