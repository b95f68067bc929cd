-- Laws of frames of touch contacts, as they are read, judged and counted.
pub mod Counting
pub mod Seen
pub mod Reading
pub mod Signed
pub mod Judgement
pub mod Scanning
pub mod Unique
pub mod Ends
