-- Route fields: what entries they have, what is wrong with them and with a message of two, and how a list is put out as one.
pub mod Field
pub mod Entry
pub mod Message
pub mod Written
