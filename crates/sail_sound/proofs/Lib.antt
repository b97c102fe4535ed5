-- What joins the test's code to soundness.
pub mod Levels
pub mod Sounds
pub mod TableTest
pub mod SeenTest
pub mod Reports
pub mod OneAnswer
