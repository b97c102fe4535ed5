-- That the step over a table is one case and no other, and that its statement leaves one answer.
pub mod Judged
pub mod OneAnswer
