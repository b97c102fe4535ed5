-- The steps by which a hop is put or taken.
pub mod Steps
