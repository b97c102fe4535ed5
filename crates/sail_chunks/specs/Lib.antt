-- What opening and closing a chunk ask and leave, and the cells of an address.
pub mod Chunks
pub mod Trail
pub mod ToOpen
