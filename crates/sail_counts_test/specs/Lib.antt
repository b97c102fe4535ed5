-- The test of the counts of a table's first two levels.
pub mod CountsTest
