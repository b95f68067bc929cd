-- What is shown of arrays of buttons.
pub mod Unique
