-- Laws of geometry, sizes and the walk, and what they say of sound tables.
pub mod Geos
pub mod Fitting
pub mod Words
pub mod Steps
pub mod Found
pub mod ReadCells
pub mod Judged
pub mod OneAnswer
pub mod Places
pub mod Walks
pub mod Sounds
pub mod Fresh
