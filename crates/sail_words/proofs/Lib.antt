-- Laws of lookups that answer with words.
pub mod Laws
