-- Elements drawn from other places of a list, one store at a time.
pub mod Draws
