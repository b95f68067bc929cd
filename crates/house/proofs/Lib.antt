pub mod Fields
pub mod Twos
pub mod Front
pub mod Records
pub mod Round
