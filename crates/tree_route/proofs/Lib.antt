-- Laws of each change: a route put in, its hop replaced, and a route taken out.
pub mod Adds
pub mod Replaces
pub mod Bares
pub mod Removes
