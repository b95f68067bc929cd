-- The contracts of the inner functions.
pub mod Judging
