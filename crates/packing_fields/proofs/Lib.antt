-- That the answers on route fields are read back, and that nothing else is in them.
pub mod ReadBack
