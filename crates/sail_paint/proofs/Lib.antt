-- Laws of painting and stamping, and that both together make a stale table right, from words or from a list.
pub mod Places
pub mod Overs
pub mod Firsts
pub mod Chunks
pub mod Stamping
pub mod Rights
pub mod ByList
