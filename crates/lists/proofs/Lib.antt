-- The laws of places, of changes, and of the test.
pub mod Places
pub mod EditRoutes
pub mod EditBytes
pub mod EditPlaces
pub mod EditHolds
pub mod ListTest
