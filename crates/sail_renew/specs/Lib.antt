-- What writing a table anew asks, and what it leaves.
pub mod Renew
