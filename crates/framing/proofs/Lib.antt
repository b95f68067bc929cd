-- Laws of frames.
pub mod Timed
pub mod Laws
pub mod Order
pub mod Reading
pub mod Judged
pub mod Tail
pub mod Begun
pub mod Least
pub mod Whole
pub mod Agreeing
pub mod Limits
pub mod After
pub mod Ends
