-- The laws of what a party sees.
pub mod SeenOwners
