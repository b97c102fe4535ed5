-- What a table of these routes and owners holds, soundness as a test, the calls that change a table, what they can say and what holds then, and
-- runs of them.
pub mod Render
pub mod Shared
pub mod Calls
pub mod After
pub mod Facts
pub mod Cases
pub mod Replies
pub mod Alters
pub mod Judge
pub mod SoundTest
pub mod CallRuns
pub mod WantOfChunks
