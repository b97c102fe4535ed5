-- The statement of make for two parties.
pub mod Contract
