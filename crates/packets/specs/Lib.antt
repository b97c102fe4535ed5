-- The statement of the header step over a table, and what it can answer.
pub mod Contract
pub mod Cases
