pub mod Laws
pub mod Order
pub mod Least
pub mod Agreeing
pub mod Ends
