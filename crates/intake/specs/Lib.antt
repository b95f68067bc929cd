-- Entries of a bench file, fed to a receiver.
pub mod Feeding
