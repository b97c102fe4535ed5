-- Laws of the maps, of the walk and of the calls.
pub mod Places
pub mod Walks
pub mod Checks
pub mod Injective
pub mod OneAnswer
pub mod Serves
pub mod Judged
