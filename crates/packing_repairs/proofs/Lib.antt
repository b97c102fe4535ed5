-- That the answer of a repair is read back.
pub mod Putting
