-- What the code of a pool tells.
pub mod Cells
pub mod Blocks
pub mod Chunks
