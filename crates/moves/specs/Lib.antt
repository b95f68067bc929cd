-- What is done to the table of contacts.
pub mod Moves
