-- Laws that the functions' proofs cite.
pub mod Packs
pub mod Sights
pub mod RisingOwners
pub mod Froms
pub mod Passes
