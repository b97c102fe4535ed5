-- What make leaves and says.
pub mod Makes
pub mod OneAnswer
