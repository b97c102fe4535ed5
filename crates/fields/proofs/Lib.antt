-- Laws of route fields: what they hold, reading them entry by entry, and writing them.
pub mod Fields
pub mod FieldBack
pub mod Reading
pub mod Messages
pub mod Writing
pub mod WriterSays
mod Vectors
