-- What joins the code to the definition of a party's announcement.
pub mod TagLaws
pub mod Enters
pub mod Sides
pub mod Judges
pub mod Answers
pub mod OneAnswer
