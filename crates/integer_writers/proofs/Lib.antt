pub mod Fill
pub mod Unique
