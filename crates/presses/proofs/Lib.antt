pub mod Driving
pub mod Putting
pub mod Concluding
pub mod Unique
