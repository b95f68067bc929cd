pub mod Laying
pub mod Stepping
pub mod Turning
pub mod Frames
pub mod Running
pub mod Unique
