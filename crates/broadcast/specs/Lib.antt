-- What the crate's contracts speak of, and what that means in the request's words.
pub mod Cast
pub mod Meaning
pub mod Contract
