-- What announce and withdraw on an image answer and leave, and what holds on the way.
pub mod Changed
pub mod Stages
pub mod Cases
