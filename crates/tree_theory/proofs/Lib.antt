-- Laws of the way down a path and of what stands at its end, and the theorems on what announce and withdraw say and leave.
pub mod Ways
pub mod Places
pub mod Midways
pub mod Without
pub mod Needs
pub mod Cases
pub mod Takes
pub mod Judged
pub mod Fresh
pub mod Frame
pub mod Untouched
