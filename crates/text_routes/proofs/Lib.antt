-- Laws of a route's line.
pub mod RouteLines
