-- What is shown of lent lists of buttons.
pub mod Places
pub mod Unique
