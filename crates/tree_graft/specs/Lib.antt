-- What the numbers of a graft have to fit.
pub mod Ready
