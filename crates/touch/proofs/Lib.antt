pub mod Laws
pub mod Order
pub mod Passes
pub mod Ranges
pub mod Unique
pub mod Least
pub mod Agreeing
pub mod Ends
