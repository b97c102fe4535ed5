-- That the answers of the calls on bit maps are read back, and that nothing else is in them.
pub mod Hops
