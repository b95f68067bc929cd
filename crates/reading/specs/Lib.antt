-- The plain reading.
pub mod Plain
pub mod Passes
