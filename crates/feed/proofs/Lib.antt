pub mod Moving
pub mod Handing
pub mod Ending
pub mod Unique
