-- What settling owners asks and leaves.
pub mod Owners
