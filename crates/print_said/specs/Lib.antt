-- The text of a sound table.
pub mod Standing
