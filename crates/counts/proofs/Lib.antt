-- The laws of the counts, and what they are for document 01's list A.
pub mod Many
pub mod Changed
pub mod Stored
pub mod ListA
