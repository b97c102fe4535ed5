-- What a repair with words beside it answers and leaves.
pub mod Repairs
