-- What the calls for the events without frames do.
pub mod Dismissal
