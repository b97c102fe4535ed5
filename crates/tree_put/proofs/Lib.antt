-- What is said at each return.
pub mod PutReturns
