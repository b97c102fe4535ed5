-- Theorems on what a repair keeps, says and leaves.
pub mod Kept
pub mod Looks
pub mod Differs
pub mod Judged
pub mod Repairs
pub mod Onwards
pub mod Damaged
pub mod Wrong
