-- What is written at each way through the load, and what the printed text is in document 01's words.
pub mod Ways
pub mod Meaning
