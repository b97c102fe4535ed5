-- Entries dealt with one after the other, to anything; and a message dealt to a table.
pub mod Deal
pub mod Loops
pub mod Update
pub mod Cases
