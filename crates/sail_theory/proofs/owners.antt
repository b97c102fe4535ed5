-- The owners of chunks: finding one, opening one, closing those that are no longer needed.
pub mod Chunks
pub mod StillFit
pub mod GrantKeep
pub mod OpenAt
pub mod UsedNeed
