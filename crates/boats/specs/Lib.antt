-- Which boat was meant.
pub mod Meant
pub mod Calls
pub mod Cutting
pub mod Joined
