-- The steps of a graft and of its reverse.
pub mod Steps
