-- A bench file.
pub mod Entries
