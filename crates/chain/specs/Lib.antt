-- Records as words, places among them, the last word that covers a cell, and all of it for a list.
pub mod Words
pub mod Place
pub mod Cover
pub mod List
