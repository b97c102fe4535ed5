-- Which cells a change of a prefix makes stale, what repainting asks and leaves, and how it is done.
pub mod Stale
pub mod Paint
pub mod Pending
