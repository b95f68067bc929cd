pub mod Rule
pub mod Unique
