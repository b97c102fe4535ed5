-- The statements of announce and withdraw on an image.
pub mod Contract
