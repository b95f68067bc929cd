pub mod Below
pub mod Example
