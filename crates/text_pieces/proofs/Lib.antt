-- The digits of a number, how long an address is, and how texts in a lent buffer follow one another.
pub mod Digits
pub mod Numbers
pub mod Addresses
pub mod Writes
pub mod Pages
