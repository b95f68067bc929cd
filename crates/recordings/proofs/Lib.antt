pub mod Records
pub mod Judged
pub mod Unique
pub mod Ends
