-- What make leaves and answers.
pub mod PairMakes
pub mod OneAnswer
