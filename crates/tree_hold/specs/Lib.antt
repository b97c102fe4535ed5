-- Nodes and hops with one more, the moves of words, and the arrays with one node or one hop more.
pub mod More
pub mod Moves
pub mod Edits
