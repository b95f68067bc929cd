-- The line of a message, and what a run promises.
pub mod Laws
pub mod Unique
