-- What the soundness test of a box goes through, and what it answers.
pub mod BoxTest
