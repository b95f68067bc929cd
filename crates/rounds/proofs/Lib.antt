pub mod Unique
pub mod Ending
