-- The frames of a message, run through the table of contacts.
pub mod Runs
