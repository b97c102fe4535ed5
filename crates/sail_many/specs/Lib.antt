-- Many addresses on their way through a table at once.
pub mod Flows
