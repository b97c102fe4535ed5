-- What a message dealt to a table is answered with, and the steps of the call.
pub mod Answers
pub mod Contract
pub mod Steps
