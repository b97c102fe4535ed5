-- One prefix more or less in a sound table.
pub mod Dealt
