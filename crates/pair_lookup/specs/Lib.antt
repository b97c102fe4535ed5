-- The statement of a party's lookup.
pub mod Contract
