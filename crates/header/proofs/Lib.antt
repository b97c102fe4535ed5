-- Laws of sums, of a header's faults, of the lowered header, and of the step by any lookup; examples of RFC 1071 and RFC 1624.
pub mod Sums
pub mod Faults
pub mod Lowers
pub mod Steps
mod Examples
