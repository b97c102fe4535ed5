-- Laws of arrays that hold routes, and of one edit of them.
pub mod Holds
pub mod GraftBits
pub mod Grafts
pub mod PutBits
pub mod Puts
pub mod Each
pub mod GraftMade
pub mod PruneMade
pub mod HopMade
pub mod TakeMade
pub mod Undone
pub mod Taken
pub mod Replaced
pub mod Paths
