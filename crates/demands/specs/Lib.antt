-- What the demands speak of beyond the definitions of the calls.
pub mod Covered
pub mod LookedAt
