-- What is judged beside the frames' contacts.
pub mod Checks
