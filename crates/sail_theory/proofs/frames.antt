-- What a change of one prefix leaves as it was.
pub mod LevelFrame
pub mod PlacesRead
pub mod TableFrame
pub mod Outside
pub mod Elsewhere
