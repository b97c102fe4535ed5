-- Laws of images and of the walk.
pub mod OneAnswer
