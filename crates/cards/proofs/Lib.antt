-- Laws of the exported calls; what they say fits their numbers, is read back, and nothing else is in them; what they leave in `out`.
mod Laws
pub mod Narrow
pub mod Fits
pub mod Boundary
pub mod Hops
pub mod Outs
pub mod Named
pub mod Stepped
pub mod Casts
pub mod ImageCalls
pub mod Putting
pub mod Forwarded
pub mod RouteFields
pub mod PairNarrow
pub mod PairLaws
pub mod PairFits
pub mod PairBoundary
