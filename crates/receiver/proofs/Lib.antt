-- How the code meets its contracts.
pub mod Answering
pub mod Unique
pub mod Weight
pub mod Bound
-- What is true of a receiver, of one message and of every history.
pub mod Became
pub mod Fitting
pub mod Lawful
pub mod Streaming
pub mod Invariants
pub mod Rested
pub mod Cutting
mod Broken
pub mod Refusing
pub mod Records
pub mod Histories
