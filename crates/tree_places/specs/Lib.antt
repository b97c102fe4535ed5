-- What is asked of bases that are raised or lowered, and a bit cleared.
pub mod Bases
