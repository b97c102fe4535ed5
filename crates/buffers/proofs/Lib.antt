-- The test of a range, what `fill` leaves, lists whose part is written over, and a loop that copies.
pub mod Ranges
pub mod Fills
pub mod Parts
pub mod Copies
