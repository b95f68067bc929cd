pub mod Moving
pub mod Cancelling
pub mod Dismissal
pub mod Unique
pub mod Ends
