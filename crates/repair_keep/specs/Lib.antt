-- What is asked of the pass over a list, and what it keeps.
pub mod Keep
