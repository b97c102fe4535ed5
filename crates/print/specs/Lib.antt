-- What is printed of a record input, and the same case by case.
pub mod Printed
pub mod Cases
