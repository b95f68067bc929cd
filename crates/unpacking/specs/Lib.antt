-- How records are unpacked.
pub mod Within
pub mod Parts
