-- Two parties in one box: what is lent for both, what each sees, when it is sound, the calls, their cases, what they leave, and runs of them.
pub mod Party
pub mod PairLent
pub mod PairSound
pub mod PairReading
pub mod PairCalls
pub mod PairCases
pub mod PairFrame
pub mod PairRuns
