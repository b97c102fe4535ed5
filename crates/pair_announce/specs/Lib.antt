-- An announcement by one of two parties: on its side of a box, and the call.
pub mod SideAdds
pub mod Tagged
pub mod Judged
pub mod Contract
