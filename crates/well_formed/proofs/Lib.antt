pub mod WellFormed
pub mod Magnitudes
pub mod Front
pub mod Round
pub mod Unique
