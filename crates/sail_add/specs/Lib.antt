-- A route put into a sound table that has room for it.
pub mod Added
pub mod Booked
pub mod PutIn
