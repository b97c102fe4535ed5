-- The laws that join the code to what routes mean.
pub mod Decodes
pub mod Places
pub mod WordRuns
pub mod Chains
pub mod Fronts
