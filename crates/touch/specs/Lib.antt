-- The touch message.
pub mod Limits
pub mod Touch
