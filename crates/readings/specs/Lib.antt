-- The lines of the two plain readings, and the run that prints them.
pub mod Line
pub mod Run
