-- What a route's line is.
pub mod RouteLine
