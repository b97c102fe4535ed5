-- The laws of routes, and what joins the code to them.
pub mod Goods
pub mod Faults
pub mod Meaning
pub mod Judged
pub mod Saids
pub mod Inputs
pub mod Puts
pub mod Rows
pub mod Inverse
pub mod Parts
pub mod ReadBack
pub mod OneAnswer
