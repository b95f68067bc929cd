-- Well-formed house records.
pub mod WellFormed
pub mod Range
pub mod Parts
