-- How values stand in lists of bytes.
pub mod Format
pub mod Answer
