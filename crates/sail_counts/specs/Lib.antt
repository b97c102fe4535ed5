-- The counts of a table's first two levels, and one route more or less in them.
pub mod Counted
pub mod Tick
