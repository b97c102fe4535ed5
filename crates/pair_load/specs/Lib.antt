-- A load by one of two parties: what is said of it, what it leaves on the party's side of a box, and the call.
pub mod Told
pub mod Cleared
pub mod SideLoads
pub mod Contract
