-- What pieces of text are, and what a call writes of them.
pub mod Digits
pub mod Pieces
pub mod Wrote
pub mod Page
