-- Laws of cells that are counted: in a block, in a pool.
pub mod Counts
pub mod Blocks
pub mod Pools
