-- What a repair keeps of a list, what it says and when, what it leaves, and runs of calls that begin there.
pub mod Repair
pub mod Keeping
pub mod Cases
pub mod Leaves
pub mod Pass
pub mod Onwards
pub mod Damaged
