-- What is true of a stream after every message.
pub mod Steadiness
pub mod Kept
pub mod Quiet
pub mod Rested
pub mod Paths
-- The sentences, and a second instance of them.
pub mod Demand
pub mod Set
mod Second
