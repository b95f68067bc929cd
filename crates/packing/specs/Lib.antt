-- How records are packed.
pub mod Filling
pub mod Parts
