-- That nothing is lacking where there is room.
pub mod Room
