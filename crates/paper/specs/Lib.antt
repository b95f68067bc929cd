-- The names that document 01 gives to numbers.
pub mod Refusals
