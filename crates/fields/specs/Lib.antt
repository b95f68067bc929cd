-- Integers as fields.
pub mod Integers
