-- Laws of entries dealt with one after the other; and what a message to a table means.
pub mod Deals
pub mod Faults
pub mod Loops
pub mod Messages
pub mod Turns
pub mod Cases
pub mod WrittenBack
