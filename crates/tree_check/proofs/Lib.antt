-- Laws of the test, and that it passes exactly what a build leaves.
pub mod OneAnswer
