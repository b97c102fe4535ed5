-- The words of an address on its way through a table.
pub mod Words
