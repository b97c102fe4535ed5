-- Geometry, what is lent to a table, its sizes, the walk of a lookup, what it can say and the cells that it reads, and when a table is sound.
pub mod Geometry
pub mod Lent
pub mod Arrays
pub mod Sizes
pub mod Level
pub mod Walk
pub mod Reads
pub mod Word
pub mod Cases
pub mod Contract
pub mod Pool
pub mod Sound
