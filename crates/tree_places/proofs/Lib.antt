-- A bit cleared, the loops over bases, and what is known after a step.
pub mod Bits
pub mod Loops
pub mod After
