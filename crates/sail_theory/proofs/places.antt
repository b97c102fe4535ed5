-- Which cell the place of a level stands for, what its cell holds, and when a table is sound.
pub mod Places
pub mod Pools
pub mod Alone
pub mod Rendered
pub mod SoundTest
pub mod Unmarked
