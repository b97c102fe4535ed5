-- Laws of the walk and of what a lookup says.
mod WalkReturns
mod LookupReturns
