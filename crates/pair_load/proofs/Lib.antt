-- What joins the code to the definition of a party's load.
pub mod Closes
pub mod Opens
pub mod SideWrites
pub mod Judges
pub mod Ends
pub mod OneAnswer
