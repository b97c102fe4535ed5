-- What arrays lack for an image.
pub mod Lack
