-- The lines of a bench file.
pub mod Report
