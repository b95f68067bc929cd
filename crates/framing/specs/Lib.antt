-- Frames of contacts, over any contact.
pub mod Frame
pub mod Format
pub mod Whole
pub mod After
