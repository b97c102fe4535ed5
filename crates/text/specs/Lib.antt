-- What the printed text is.
pub mod Text
