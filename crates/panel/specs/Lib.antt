-- The lines of the panel's program.
pub mod Line
