-- What a block of cells is planned to hold, and how it is painted.
pub mod Plan
pub mod Paint
pub mod Under
