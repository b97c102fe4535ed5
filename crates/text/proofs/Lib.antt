-- Laws of lines, and document 01's example.
pub mod Lines
pub mod Examples
