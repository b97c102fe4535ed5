-- Laws of a part beside its plan: cells that name chunks settled, and what the comparison then tells.
pub mod Settles
pub mod Rights
pub mod Tested
