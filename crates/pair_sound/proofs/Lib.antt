-- What joins the test's code to the soundness of a box.
pub mod PartsTold
pub mod Boxes
pub mod BoxTold
