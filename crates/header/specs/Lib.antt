-- Ones' complement sums, what is wrong with a header, how it is lowered, and what the header step answers and leaves by any lookup.
pub mod Sums
pub mod Header
pub mod Step
pub mod Cases
