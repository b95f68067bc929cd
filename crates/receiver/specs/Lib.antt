-- The receiver, the contracts of its inner functions, and histories of it.
pub mod Limits
pub mod Receive
pub mod Events
pub mod History
