-- How the code meets its contracts.
pub mod Entries
pub mod Batched
pub mod Counting
pub mod Singly
pub mod Receiving
-- What the contract says of every batch.
pub mod Unique
pub mod Refusing
pub mod Cutting
