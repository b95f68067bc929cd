-- What is answered of a whole body.
pub mod Checks
