-- `said_numbered` of a call's own answer is what the call says.
pub mod Numbers
