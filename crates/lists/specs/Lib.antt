-- What the crate's contracts speak of.
pub mod Place
pub mod Edit
pub mod ListTest
