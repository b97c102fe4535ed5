-- How the answers of the calls on bit maps are read back.
pub mod Hops
