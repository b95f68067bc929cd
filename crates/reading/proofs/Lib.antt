pub mod Counting
pub mod Writing
pub mod Judging
pub mod Answering
pub mod Unique
pub mod Agreeing
