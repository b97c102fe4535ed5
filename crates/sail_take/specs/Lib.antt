-- A route taken out of a sound table.
pub mod Taken
pub mod TakenOut
