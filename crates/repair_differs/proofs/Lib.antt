-- Laws of room that is lent for counting.
pub mod Withs
