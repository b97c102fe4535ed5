-- Laws of the routes that an image holds.
pub mod Lists
pub mod Back
pub mod Plain
pub mod Same
pub mod Canonical
pub mod Holdings
pub mod OneImage
