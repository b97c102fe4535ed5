-- Laws of one record more that is kept or dropped.
pub mod Keeps
