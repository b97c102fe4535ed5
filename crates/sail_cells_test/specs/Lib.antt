-- What is asked of a pool of chunks.
pub mod Pool
