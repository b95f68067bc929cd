-- The lines of the program.
pub mod Line
