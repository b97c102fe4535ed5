-- The statement of a lookup in an image.
pub mod Contract
