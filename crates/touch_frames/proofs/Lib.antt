pub mod Passes
pub mod Unique
pub mod Ends
