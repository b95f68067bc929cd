pub mod Window
pub mod Narrow
pub mod Unique
