-- The laws of a party's report.
pub mod Reports
pub mod OneAnswer
