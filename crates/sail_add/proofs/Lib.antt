-- What joins the code to the definition `adding`.
pub mod PutChain
pub mod Adds
pub mod AddsAlone
