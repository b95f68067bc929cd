-- The records of frames.
pub mod Records
pub mod Answer
