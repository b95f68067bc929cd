-- Laws of the checks: the frame at the front of records, part by part, and the first frame's offset.
pub mod Recorded
pub mod Offsets
pub mod Unique
