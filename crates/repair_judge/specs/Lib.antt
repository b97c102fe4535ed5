-- What judging a repair asks for, and what it tells.
pub mod Judge
