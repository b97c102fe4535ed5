-- What a repair answers, and what its steps ask and leave.
pub mod Answers
pub mod Contract
pub mod Told
