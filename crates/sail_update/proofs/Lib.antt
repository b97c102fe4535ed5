-- What joins the code of update to its definition, and that its answers are told apart.
pub mod Goings
pub mod Comings
pub mod Judges
pub mod Ends
pub mod OneAnswer
