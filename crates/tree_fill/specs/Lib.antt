-- What holds while an image is filled.
pub mod Fill
