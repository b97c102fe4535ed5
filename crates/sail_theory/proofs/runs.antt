-- What holds after any run of calls.
pub mod AfterRun
pub mod AsFresh
pub mod WantOfChunks
pub mod Replies
pub mod ForChunks
