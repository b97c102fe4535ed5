-- The laws of what routes say of a cell, and of lists that change by one route.
pub mod Levels
pub mod Longest
pub mod Marks
pub mod Paint
pub mod Need
pub mod Prefixes
pub mod Downs
pub mod Frame
pub mod Only
pub mod Served
pub mod Standing
pub mod Changed
pub mod ListParts
pub mod NeedAfter
pub mod TwoLevels
