-- What is asked in the examples, and what document 01 answers: its starred lines, and a line for every limit of it on both sides.
pub mod Lines
pub mod Starred
pub mod Blank
pub mod EdgesSizes
pub mod EdgesInputs
pub mod EdgesLookups
pub mod EdgesChanges
pub mod EdgesImages
pub mod EdgesRepairs
pub mod EdgesHeaders
pub mod EdgesHopRecords
pub mod Edges
pub mod EdgesTreeChanges
pub mod Pairs
