-- The demands, a file for each; and the demands of the calls on bit maps, of broadcasts, of the header step, of hop records, of messages, of repairs
-- and of images; and what the count of a lookup says of the address.
pub mod Demand1
pub mod Demand2
pub mod Demand3
pub mod OneAnswer
pub mod Basic
pub mod Broadcasts
pub mod Headers
pub mod Repairs
pub mod Images
pub mod Pairs
pub mod OneImage
pub mod HopRecords
pub mod Messages
pub mod Once
pub mod LookedAt
