-- The records of frames.
pub mod Frames
