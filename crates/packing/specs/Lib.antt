-- How answers are packed into one number, and how they are read back.
pub mod Pack
pub mod Unpack
pub mod ImageAnswers
pub mod Parts
