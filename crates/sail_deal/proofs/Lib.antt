-- What joins the code to `adding` and `taking`, and that a route announced as it stands changes nothing.
pub mod Same
pub mod Deals
