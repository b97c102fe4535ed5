-- What routes say of a cell, how they serve an address, the way down through the lengths, and what stands in a list.
pub mod Cells
pub mod Served
pub mod Down
pub mod Standing
