-- What joins the code to what is left of a table, and that to the definition `taking`.
pub mod TakeChain
pub mod Takes
pub mod TakesAlone
