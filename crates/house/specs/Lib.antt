-- House records.
pub mod Fields
pub mod Twos
pub mod Layout
pub mod Fits
pub mod Records
