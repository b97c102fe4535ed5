-- Laws that everything above cites.
pub mod Bools
pub mod Slots
pub mod Masks
pub mod Ones
pub mod Searches
pub mod Tabs
pub mod Tells
pub mod Numbers
pub mod Counts
pub mod Packed
