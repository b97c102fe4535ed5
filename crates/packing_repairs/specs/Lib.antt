-- How the answer of a repair is packed, and what stands in its words.
pub mod Repairs
