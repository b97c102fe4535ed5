-- The statement of a party's report, and what it answers after the sizes.
pub mod Told
pub mod Contract
