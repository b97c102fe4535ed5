-- Laws that the functions' proofs cite.
pub mod NeedPass
pub mod Needs
pub mod Weighs
