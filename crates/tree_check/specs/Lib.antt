-- The statement of the test of an image.
pub mod Contract
