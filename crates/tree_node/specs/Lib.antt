-- The run of a node and its bits, how many nodes there are, and nodes that wait.
pub mod NodeRuns
pub mod Count
pub mod Queue
