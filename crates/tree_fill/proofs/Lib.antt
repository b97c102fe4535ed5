-- A node taken from the queue, and the start and the end of the filling.
pub mod Steps
pub mod Ends
