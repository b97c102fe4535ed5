-- Calls on an image one after the other.
pub mod ImageRuns
