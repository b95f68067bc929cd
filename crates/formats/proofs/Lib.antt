pub mod Laws
pub mod Order
pub mod Steps
pub mod Least
pub mod Refusing
pub mod Agreeing
pub mod Unique
pub mod Ends
