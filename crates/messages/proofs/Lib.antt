pub mod Front
pub mod Laws
pub mod Unique
