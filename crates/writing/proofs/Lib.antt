pub mod Checked
pub mod Held
pub mod RoundTrip
pub mod Unique
mod Spelt
mod Putting
mod Measured
mod Drafts
