-- Good routes, the records that hold them, what a call says of them, in which cases, and its statement; and document 01's list A.
pub mod Route
pub mod Record
pub mod Said
pub mod Input
pub mod Answers
pub mod Cases
pub mod Contract
pub mod ListA
