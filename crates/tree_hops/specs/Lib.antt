-- What the numbers of a hop that is put have to fit.
pub mod Ready
