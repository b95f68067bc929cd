pub mod Laid
pub mod Message
pub mod Files
