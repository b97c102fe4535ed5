-- What make, load, announce and withdraw say and leave, and the report.
pub mod SomeCase
pub mod OneCase
pub mod ChangeHolds
pub mod Outcomes
pub mod Cleared
pub mod Make
pub mod Load
pub mod SameSizes
pub mod OneEnd
pub mod OneState
pub mod WrongCalls
pub mod Refusals
