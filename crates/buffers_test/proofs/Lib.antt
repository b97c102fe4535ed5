-- One law for each kind of loop: what looks for zeros, and what compares.
pub mod Blanks
pub mod Sames
